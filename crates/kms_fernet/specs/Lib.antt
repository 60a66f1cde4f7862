pub mod Hmac
pub mod Cbc
pub mod Key
pub mod Token
pub mod Wrapped
pub mod Laws
