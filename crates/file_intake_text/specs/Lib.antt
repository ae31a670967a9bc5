pub mod GatewayTexts
