pub mod SafeEvents
