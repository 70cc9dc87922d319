pub mod Chains
pub mod LeafKey
pub mod LeafKeyHash
pub mod MessageHash
