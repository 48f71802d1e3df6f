pub mod Working
mod FreshWorkers
pub mod LaneFacts
