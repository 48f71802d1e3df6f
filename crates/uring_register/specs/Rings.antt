-- What a ring has: restrictions, an issuer, an eventfd, and a number in each thread.
pub mod Restricting
pub mod Issuing
pub mod IssuingLaws
pub mod Telling
pub mod Enrolling
pub mod EnrollingLaws
pub mod Numbering
