use Rattle.std.proofs.Common.{◌≡◌, ◌++◌, List, ℕ, OnOk, subst}
use Rattle.udb_yaml.proofs.PrintLemmas.{null_line, true_line, false_line, int_line, text_line, list_line, map_line}
use Rattle.udb_yaml.proofs.print.push_line.Goals as goal

pub returns-in-Null : goal.returns-in-Null
returns-in-Null c = subst (λ (z : List ℕ). OnOk c.push_str.result (c.push_str.new.self ≡ c.args.out.now ++ z)) (null_line c.args.tree.now c.in-Null.is) c.push_str.ensures

pub returns-then-flag : goal.returns-then-flag
returns-then-flag c = subst (λ (z : List ℕ). OnOk c.push_str-then-flag.result (c.push_str-then-flag.new.self ≡ c.args.out.now ++ z)) (true_line c.args.tree.now c.in-Flag.flag c.in-Flag.is c.if-flag.true) c.push_str-then-flag.ensures

pub returns-else-flag : goal.returns-else-flag
returns-else-flag c = subst (λ (z : List ℕ). OnOk c.push_str-else-flag.result (c.push_str-else-flag.new.self ≡ c.args.out.now ++ z)) (false_line c.args.tree.now c.in-Flag.flag c.in-Flag.is c.if-flag.false) c.push_str-else-flag.ensures

pub returns-in-Int : goal.returns-in-Int
returns-in-Int c = subst (λ (z : List ℕ). OnOk c.push_number.result (c.push_number.new.out ≡ c.args.out.now ++ z)) (int_line c.args.tree.now c.in-Int.number c.in-Int.is) c.push_number.ensures

pub returns-in-Text : goal.returns-in-Text
returns-in-Text c = subst (λ (z : List ℕ). OnOk c.push_quoted.result (c.push_quoted.new.out ≡ c.args.out.now ++ z)) (text_line c.args.tree.now c.in-Text.text c.as_str.result.now c.in-Text.is c.as_str.ensures) c.push_quoted.ensures

pub returns-in-List : goal.returns-in-List
returns-in-List c = subst (λ (z : List ℕ). OnOk c.push_str-in-List.result (c.push_str-in-List.new.self ≡ c.args.out.now ++ z)) (list_line c.args.tree.now c.in-List.field-0 c.in-List.is) c.push_str-in-List.ensures

pub returns-in-Map : goal.returns-in-Map
returns-in-Map c = subst (λ (z : List ℕ). OnOk c.push_str-in-Map.result (c.push_str-in-Map.new.self ≡ c.args.out.now ++ z)) (map_line c.args.tree.now c.in-Map.field-0 c.in-Map.is) c.push_str-in-Map.ensures
