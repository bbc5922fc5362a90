mod ColumnLemmas
mod FilterLemmas
mod PackedLemmas
mod PageLemmas
