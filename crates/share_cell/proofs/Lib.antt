pub mod CopiedLeaves
pub mod OneLeaf
pub mod JoinedNumbers
pub mod SomeLeaves
