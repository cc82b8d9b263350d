-- What the contracts of `svn` cite besides the definitions of `paper`.
pub mod Answer
