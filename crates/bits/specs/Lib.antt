-- What the inner functions of the bit move answer.
pub mod Field
