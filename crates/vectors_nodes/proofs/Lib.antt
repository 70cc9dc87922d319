pub mod HangingUp
