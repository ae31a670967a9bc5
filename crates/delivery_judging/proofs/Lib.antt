mod KeysWritten
mod Places
mod Rows
