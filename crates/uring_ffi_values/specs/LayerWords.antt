-- Calls of io_uring_enter(2), the course of requests, times and waits, as words that C can read and write.
pub mod EnterForm
pub mod TimeForm
pub mod CourseForm
pub mod WaitForm
