pub mod TotalLaws
mod PlayedThrough
mod PlayTexts
