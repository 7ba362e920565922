pub mod MakeLaws
pub mod UnreadLaws
