-- What a call says, the bytes of each answer, and the laws of replies.
pub mod Said
pub mod Given
pub mod Replies
pub mod Capped
