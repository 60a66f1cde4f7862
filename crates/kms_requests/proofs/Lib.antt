mod BodyLaws
mod ListLaws
