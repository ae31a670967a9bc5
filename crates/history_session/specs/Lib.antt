pub mod SessionCalls
