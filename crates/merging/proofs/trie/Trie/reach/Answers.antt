-- The finder looks at the marks; what it finds, or that there is room, decides.
use Rattle.std.proofs.Common.{◌≡◌, ◌+◌, length, take, refl, sym, ap, arith, rules}
use Rattle.std.proofs.lemmas.List.{length-take-le, take_more_set}
use Rattle.merging.proofs.Marks.{reaching_found, reaching_new}
use Rattle.merging.proofs.trie.Trie.reach.Goals as goal

pub returns-in-Some : goal.returns-in-Some
returns-in-Some c =
    rw (reaching_found c.args.mark c.requires.mark _ c.in-Some.place (rw c.marks.ensures at c.in-Some.ensures)) (record { room = omega arith; node = refl; marks = refl })

pub returns : goal.returns
returns c =
    let rs = c.args.self.now.records.now in
    let n = c.args.self.now.count in
    let long : length (take n rs) ≡ n = length-take-le n rs (omega (arith, c.requires.room)) in
    rw (reaching_new c.args.mark c.requires.mark _ (rw c.marks.ensures at c.in_default.ensures)) (record { room = search rules; node = ap (λ k. k + 1) (sym long); marks = take_more_set rs n c.args.mark (omega (arith, c.requires.room)) })
