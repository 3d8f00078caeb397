-- What a link's start promises, by the definitions of turns.
pub mod Start
pub mod Fresh
