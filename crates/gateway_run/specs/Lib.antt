pub mod GatewayRuns
