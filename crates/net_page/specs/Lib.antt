pub mod Page
