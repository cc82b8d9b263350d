-- The laws that the callers of `svn` cite.
pub mod OneToOne
pub mod Told
pub mod Determined
pub mod Asks
