pub mod KeyFile
pub mod Keys
pub mod Ring
pub mod RingFields
