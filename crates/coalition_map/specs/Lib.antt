pub mod Members
pub mod MembersInside
pub mod Coalitions
pub mod PlanInside
