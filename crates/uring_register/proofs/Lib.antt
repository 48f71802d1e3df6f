mod TableLaws
mod UseRuns
mod GroupRuns
mod GroupKept
mod IssuingLaws
mod CallRuns
mod MappedLines
