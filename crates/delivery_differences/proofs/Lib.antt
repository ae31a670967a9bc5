pub mod KeyRows
pub mod DifferencePasses
pub mod Note12
pub mod OwnRows
