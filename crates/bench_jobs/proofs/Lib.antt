mod AllocationLaws
mod MergingLaws
mod ReadingLaws
mod WritingLaws
