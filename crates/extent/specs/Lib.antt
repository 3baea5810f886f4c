-- What the judging of an extent answers, and the laws that its loops cite: the number of its axes, each test at the axes left, names
-- by number, and the number of cells as the answer.
pub mod Rank
pub mod Tests
pub mod Meeting
pub mod Names
pub mod Judged
