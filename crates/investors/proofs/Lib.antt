-- Laws of the checks across an investor's orders, and of the participants seen.
pub mod Excluding
pub mod Fills
pub mod FirstOrder
pub mod Noting
pub mod Skipping
