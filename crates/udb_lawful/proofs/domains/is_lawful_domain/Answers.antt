use Rattle.std.proofs.Common.{◌≡◌, false}
use Rattle.udb_lawful.proofs.Lists.{numbers-at, words-at, some-of}
use Rattle.udb_lawful.proofs.domains.is_lawful_domain.Goals as goal

pub returns-then-not-is_empty : goal.returns-then-not-is_empty
returns-then-not-is_empty c =
    let empty : c.is_empty.result ≡ false = cc in
    numbers-at c.args.domain.now c.in-Numbers.numbers c.are_distinct.result (cc) (some-of c.in-Numbers.numbers c.is_empty.result c.is_empty.ensures.1 empty) (cc)

pub returns-then-not-is_empty-2 : goal.returns-then-not-is_empty-2
returns-then-not-is_empty-2 c =
    let empty : c.is_empty-in-Words.result ≡ false = cc in
    words-at c.args.domain.now c.in-Words.words c.are_distinct-then-not-is_empty-2.result (cc) (some-of c.in-Words.words c.is_empty-in-Words.result c.is_empty-in-Words.ensures.1 empty) (cc)
