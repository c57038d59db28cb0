pub mod RunHeld
