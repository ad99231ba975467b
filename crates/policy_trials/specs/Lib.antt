pub mod Blink
