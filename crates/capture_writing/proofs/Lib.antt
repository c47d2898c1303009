mod ReadingBack
mod WrittenHead
