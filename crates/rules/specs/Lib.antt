-- Document 01 as definitions that compute, one file for each heading, and its starred berth examples as one theorem.
pub mod Numbers
pub mod Gap
pub mod Answers
pub mod Refusals
pub mod Search
pub mod QueryFile
pub mod AnswerFile
pub mod AnswerExamples
pub mod Berth
pub mod Bodies
pub mod BodyExamples
pub mod Why
pub mod WhyExamples
pub mod QueryFileExamples
pub mod Bounds
pub mod BoundsExamples
