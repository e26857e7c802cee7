pub mod Programs
pub mod Code
pub mod CodeLaws
pub mod RouteLaws
pub mod RingLaws
pub mod JoinLaws
pub mod PinListLaws
pub mod PanelLaws
