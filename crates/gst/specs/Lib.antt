-- What the contracts of `gst` cite besides the definitions of `paper`.
pub mod Answer
