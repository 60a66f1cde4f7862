pub mod ElementLaws
