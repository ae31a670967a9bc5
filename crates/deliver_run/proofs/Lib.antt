mod DeliverRuns
