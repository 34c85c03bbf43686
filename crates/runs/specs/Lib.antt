pub mod TraceRuns
