-- Beginning a put and both kinds of take.
pub mod Begin
