-- In the order in which they are best read.
mod Common
-- Lists of events, of references and of numbers:
pub mod Seeking
pub mod Puts
pub mod Counting
pub mod Parts
pub mod Flat
pub mod Taking
pub mod Results
-- The laws of what a crash may leave:
pub mod Narrower
pub mod ReadBack
pub mod Units
pub mod Rest
-- A choice gives an image, and each image has a choice:
pub mod Fitting
pub mod Chosen
pub mod Painting
pub mod Leaving
pub mod Crashing
-- All images, one after the other:
pub mod Walking
pub mod Lengths
pub mod Files
-- What a volume keeps, and what it folds:
pub mod Numbers
pub mod Without
pub mod Folding
pub mod Foldable
pub mod ShownLength
pub mod Folded
-- What is kept of a file:
pub mod KeptLists
pub mod Ascending
pub mod HowItStands
pub mod PastEvents
pub mod KeptTells
pub mod EndOrder
pub mod KeptCounts
pub mod IssuedWays
pub mod KeptFolds
pub mod FoldedEvents
-- A count passes over what no write touches:
pub mod Skipping
