pub mod TurnProved
