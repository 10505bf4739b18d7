pub mod FirstPort
