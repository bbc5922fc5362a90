-- What reaches the starts and the ends of nodes.
use Rattle.std.proofs.Common.{ℕ, Bool, inl, inr, List, [], get_or}
use Rattle.vob_flow.specs.Draws.{AreLeast, AreWithin, Comes, HaveShape, IsIn}
use Rattle.vob_flow.specs.Draws.Comes.{starts_in, drawn}
use Rattle.vob_flow.specs.Gathered.{AreGathered}
use Rattle.vob_flow.specs.Reaching.{AreFlowing, AreReaching}
use Rattle.vob_flow.proofs.AnyLemmas.{Any-map}

module _ {before : List (List ℕ)} {mask : ℕ → ℕ → Bool} {gens starts ends : List (List Bool)}
    (shape : HaveShape gens starts) (h : AreLeast before mask gens ends)
    (g : AreGathered before ends starts) where
  flowing : AreFlowing before mask gens starts ends
  flowing = record {
    starts_are = g;
    count = h.solution.shape.count;
    ends_are = λ n v. (
      (λ e. elim ((h.solution.meets n v).0 e) [
        | inl first ↦ inl first
        | inr new ↦ inr ((g.each n v).1 new.1, new.0)
      ]),
      (λ either. (h.solution.meets n v).1 (elim either [
        | inl first ↦ inl first
        | inr new ↦ inr (new.1, (g.each n v).0 new.0)
      ])),
    );
  }

  module _ (others other_ends : List (List Bool)) (s : AreFlowing before mask gens others other_ends) where
    come_in : {n v : ℕ} → Comes before mask gens n v → IsIn other_ends n v
    come_in {n} {v} (starts_in e) = (s.ends_are n v).1 (inl e)
    come_in {n} {v} (drawn {m = m} keeps (k, less, e) c) =
        (s.ends_are n v).1 (inr ((s.starts_are.each n v).1 (k, m, less, e, come_in c), keeps))

    ends_within : AreWithin ends other_ends
    ends_within n v e = come_in (h.least n v e)

    starts_within : AreWithin starts others
    starts_within n v e = (s.starts_are.each n v).1
        (Any-map (λ m. IsIn ends m v) (λ m. IsIn other_ends m v) (get_or before n [])
        (λ m in_m. ends_within m v in_m) ((g.each n v).0 e))

  pub AreReaching-least : AreReaching before mask gens starts ends
  AreReaching-least = record {
    starts_shape = shape;
    ends_shape = h.solution.shape;
    flowing = flowing;
    least = λ others other_ends s. (
      starts_within others other_ends s,
      ends_within others other_ends s,
    );
  }
