use Rattle.std.proofs.Common.{◌≡◌, true, length, get_or, arith, subst, refl, sym, ap}
use Rattle.std.proofs.lemmas.List.Elements.{All-more}
use Rattle.udb_lawful.proofs.Lists.{all-of}
use Rattle.db_spec.specs.Entries.{IsWidths}
use Rattle.udb_db.proofs.names.has_widths.Goals as goal

pub returns-then-is_width_param : goal.returns-then-is_width_param
returns-then-is_width_param c =
    let list : c.as_slice-param-items.result.now ≡ c.args.space.now.params = cc in
    let widths : IsWidths c.param-item.result = c.is_width_param.ensures.0 (cc) in
    let is : c.param-item.result ≡ get_or c.args.space.now.params c.loop-param.param-index c.param-item.result = cc in
    (λ _. (c.loop-param.param-index, c.param-item.result, omega (arith, ap length list), sym is, widths), λ _. refl)

pub loop-param-preserved : goal.loop-param-preserved
loop-param-preserved c =
    let list : c.as_slice-param-items.result.now ≡ c.args.space.now.params = cc in
    let none : IsWidths c.param-item.result → ⊥ = λ w. (let t : c.is_width_param.result ≡ true = c.is_width_param.ensures.1 w in cc) in
    let is : c.param-item.result ≡ get_or c.args.space.now.params c.loop-param.param-index c.param-item.result = cc in
    All-more (λ p. IsWidths p → ⊥) c.args.space.now.params c.loop-param.param-index c.param-item.result (omega (arith, ap length list)) c.loop-param.invariant (subst (λ p. IsWidths p → ⊥) is none)

pub returns : goal.returns
returns c =
    let list : c.as_slice-param-items.result.now ≡ c.args.space.now.params = cc in
    let none = all-of (λ p. IsWidths p → ⊥) c.args.space.now.params c.loop-param.param-index (omega (arith, ap length list)) c.loop-param.invariant in
    (λ t. absurd (cc), λ w. absurd (none w.0 w.1 w.2 (subst IsWidths (sym w.3) w.4)))
