-- A trie in records that are lent: its branches and ends, and how many more the records have room for.
use Rattle.std.specs.Prelude.{ℕ, ◌-◌, List, length, take}
use Rattle.working.specs.declared.record.WorkingRecord.{WorkingRecord}
use Rattle.merging.specs.declared.trie.Trie.{Trie}

abbrev pub marks : Trie → List WorkingRecord
marks t = take t.count t.records.now

abbrev pub spare : Trie → ℕ
spare t = length t.records.now - t.count
