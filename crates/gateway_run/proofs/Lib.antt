pub mod GatewayStatus
