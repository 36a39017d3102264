use Rattle.std.proofs.Common.{◌≡◌, ◌++◌, ◌∷◌, [], cond, Option, Some, None, Bor, refl, sym, ap, ◌∙◌}
use Rattle.std.specs.Option.{is_some, option_copied}
use Rattle.wot_types.specs.declared.row.Row.{Row}
use Rattle.wot_types.specs.Rows.{with_row}
use Rattle.wot_explain.specs.declared.found.Found.{Found}
use Rattle.wot_explain.proofs.found.Found.add.Goals as goal

copied : (r : Option (Bor Row)) → is_some (option_copied r) ≡ is_some r
copied None = refl
copied (Some row) = refl

pub returns : goal.returns
returns c =
    let self = c.args.self in
    let row = c.args.row.now in
    let absent = ap is_some (sym c.get.ensures.found) ∙ copied c.get.result ∙ sym c.is_some.ensures ∙ c.if-is_some.false in
    let with_one : Found = record { rows = with_row self.rows row; todo = self.todo ++ row.key ∷ [] } in
    let rows = c.in_ok-rows.ensures ∙ ap (λ m. with_row m c.in_ok-copy_row.field-0) c.rows.view_is ∙ ap (with_row self.rows) c.in_ok-copy_row.ensures in
    ap (λ r. record { rows = r; todo = c.push.new.self }) rows
    ∙ ap (λ t. record { rows = with_row self.rows row; todo = t }) c.in_ok-push.ensures.ok
    ∙ ap (λ b. cond b self with_one) (sym absent)
