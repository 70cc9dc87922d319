pub mod MemberLaws
pub mod CoalitionLaws
pub mod LeafLaws
pub mod Unranking
pub mod Ranking
