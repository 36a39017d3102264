use Rattle.std.proofs.Common.{◌≡◌, ℕ, Bool, List, false, Option, Some, None, IfSome, subst}
use Rattle.std.specs.FinMap as map
use Rattle.std.specs.FinMap.{nat_cmp-IsAntisymmetric}
use Rattle.std.specs.Cmp.{nat_cmp_total}
use Rattle.wot_types.specs.declared.row.Row.{Row}
use Rattle.wot_types.specs.Rows.{HaveNoScopes, IsKeptRow, has_scope}
use Rattle.wot_types.proofs.FinMaps.{IfSome-get}
use Rattle.wot_types.proofs.rows.Rows.may_have_scopes.Goals as goal

none_of : (scoped : Bool) (filter : List Bool) (id : ℕ) (r : Option Row) → scoped ≡ false → IfSome r (λ row. IsKeptRow scoped filter (id, row)) → IfSome r (λ row. has_scope row ≡ false)
none_of scoped filter id None is h = tt
none_of scoped filter id (Some row) is h = h.1 is

pub returns : goal.returns
returns c = λ is. subst HaveNoScopes c.self.view_is
    (λ id. none_of c.self.inside.scoped c.self.inside.filter id (map.get (map.from_entries c.self.inside.kept.entries) id) is
    (IfSome-get nat_cmp_total nat_cmp-IsAntisymmetric (IsKeptRow c.self.inside.scoped c.self.inside.filter) (map.from_entries c.self.inside.kept.entries) id c.self.invariant))
