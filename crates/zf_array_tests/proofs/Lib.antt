pub mod RoundedDown
