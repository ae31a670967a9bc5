pub mod ComposeStatus
