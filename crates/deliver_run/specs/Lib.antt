pub mod DeliverRuns
