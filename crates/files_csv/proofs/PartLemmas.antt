-- What one more byte makes of a cell.
use Rattle.std.specs.Prelude.{◌==◌, flat_map}
use Rattle.std.proofs.Common.{◌≡◌, ◌≢◌, ◌∙◌, ◌++◌, ◌∷◌, [], ℕ, ◌+◌, ◌<◌, false, suc, zero, List, MatchResult, Result, Ok, Err, append_assoc, ap, inl, inr, refl, sym, take, arith, length}
use Rattle.std.proofs.lemmas.Bool.{ne_eqb}
use Rattle.std.proofs.lemmas.List.{append-nil, length-append}
use Rattle.std.proofs.lemmas.List.Concat.{flat_map-append}
use Rattle.std.proofs.lemmas.List.Elements.{All-cons, All-nil, All-same}
use Rattle.files_csv.specs.Refused.{CantFollow}
use Rattle.files_csv.specs.Parts.{AreBody, Begins, CantStand, Goes, InCell, Stands, StandsNext}
use Rattle.files_csv.specs.Rows.{AreCells, IsCell, IsPlain, in_quotes, mark, opened}
use Rattle.files_csv.specs.Rows.AreCells.{comma, none, row}
use Rattle.files_csv.specs.declared.quotes.Part.{Part}
use Rattle.files_csv.specs.declared.quotes.Part.TheVariants.{End, Mark, Plain, Quote, Quoted, Return, Start}

-- where no quote is open and no line feed is to follow, a cell may end
pub cell_ends : (part : Part) (cell : List ℕ) → part ≢ Quoted → part ≢ Return → Begins part cell → IsCell cell
cell_ends Start cell shut wait begins = inl (All-same IsPlain cell [] begins (All-nil IsPlain))
cell_ends Plain cell shut wait begins = inl begins.0
cell_ends Quote cell shut wait begins = inr begins
cell_ends Quoted cell shut wait begins = absurd (shut refl)
cell_ends Return cell shut wait begins = absurd (wait refl)
cell_ends (Mark count) cell shut wait begins = absurd begins
cell_ends End cell shut wait begins = absurd begins

-- a line feed ends a row after a cell
pub row_ends : (part : Part) (cell : List ℕ) (byte : ℕ) → byte ≡ 10 → part ≢ Quoted → part ≢ Return →
    Begins part cell → Goes cell byte End
row_ends part cell byte same shut wait begins =
    (cell, 10 ∷ [], cell_ends part cell shut wait begins, inl refl, ap (λ b. cell ++ b ∷ []) same)

-- and after a carriage return
pub return_ends : (part : Part) (cell : List ℕ) (byte : ℕ) → part ≡ Return → byte ≡ 10 → Begins part cell →
    Goes cell byte End
return_ends part cell byte is same begins = go (rw is at begins)
  where
    go : Begins Return cell → Goes cell byte End
    go begun = (
      begun.0,
      13 ∷ 10 ∷ [],
      begun.1,
      inr refl,
      rw (begun.2, same) (append_assoc begun.0 (13 ∷ []) (10 ∷ [])),
    )

-- one more byte of a text in quotes
opened-push : (content : List ℕ) (byte : ℕ) → opened (content ++ byte ∷ []) ≡ opened content ++ in_quotes byte
opened-push content byte =
    ap (λ xs. 34 ∷ xs) (flat_map-append in_quotes content (byte ∷ [])
    ∙ ap (λ xs. flat_map in_quotes content ++ xs) (append-nil (in_quotes byte)))

-- in quotes other bytes are the text's
pub text_more : (cell : List ℕ) (byte : ℕ) → byte ≢ 34 → Begins Quoted cell → Goes cell byte Quoted
text_more cell byte other begins = (
  begins.0 ++ byte ∷ [],
  rw (begins.1) (sym (opened-push begins.0 byte ∙ ap (λ xs. opened begins.0 ++ xs) one)),
)
  where
    one : in_quotes byte ≡ byte ∷ []
    one = let no : (byte == 34) ≡ false = ne_eqb byte 34 other in rw no refl

-- a quote is doubled
pub quote_more : (part : Part) (cell : List ℕ) (byte : ℕ) → part ≡ Quote → byte ≡ 34 → Begins part cell →
    Goes cell byte Quoted
quote_more part cell byte is same begins = go (rw is at begins)
  where
    go : Begins Quote cell → Goes cell byte Quoted
    go begun = (
      begun.0 ++ 34 ∷ [],
      rw (begun.1, same) (append_assoc (opened begun.0) (34 ∷ []) (34 ∷ []) ∙ sym (opened-push begun.0 34)),
    )

-- more bytes of a text are more of it without the mark
pub body_more : (seen body more : List ℕ) → AreBody seen body → AreBody (seen ++ more) (body ++ more)
body_more seen body more (inl same) = inl (ap (λ xs. xs ++ more) same ∙ append_assoc mark body more)
body_more seen body more (inr bare) = inr (
  ap (λ xs. xs ++ more) bare.0,
  λ others rest same. bare.1 (more ++ others) rest (sym (append_assoc seen more others) ∙ same),
)

-- bytes that aren't the mark's begin a cell
pub in_cell : (part : Part) (seen : List ℕ) (start : ℕ) → ((count : ℕ) → part ≢ Mark count) →
    Stands part seen start → InCell part seen start
in_cell (Mark count) seen start past stands = absurd (past count refl)
in_cell Start seen start past stands = stands
in_cell Plain seen start past stands = stands
in_cell Quoted seen start past stands = stands
in_cell Quote seen start past stands = stands
in_cell Return seen start past stands = stands
in_cell End seen start past stands = stands

-- a cell after one more byte, or the next one
module _ (seen cells cell : List ℕ) (byte start : ℕ)
    (body : AreBody (seen ++ byte ∷ []) ((cells ++ cell) ++ byte ∷ [])) (each : AreCells cells)
    (start_is : start + length cell ≡ length seen) where
  anew : (all : List ℕ) → AreCells all → (cells ++ cell) ++ byte ∷ [] ≡ all →
      InCell Start (seen ++ byte ∷ []) (length (seen ++ byte ∷ []))
  anew all are same = record {
    cells = all;
    cell = [];
    body = rw (append-nil all, ← same) body;
    each = are;
    begins = refl;
    start_is = omega arith;
  }

  further : (part : Part) → Begins part (cell ++ byte ∷ []) → InCell part (seen ++ byte ∷ []) start
  further part begins = record {
    cells = cells;
    cell = cell ++ byte ∷ [];
    body = rw (← append_assoc cells cell (byte ∷ [])) body;
    each = each;
    begins = begins;
    start_is = rw (length-append cell (byte ∷ []), length-append seen (byte ∷ [])) (omega (arith, start_is));
  }

  pub next_stands : (next : Part) → Goes cell byte next → StandsNext next (seen ++ byte ∷ []) start
  next_stands Start goes = anew (cells ++ (cell ++ 44 ∷ [])) (comma cells cell each goes.0)
      (append_assoc cells cell (byte ∷ []) ∙ ap (λ b. cells ++ (cell ++ b ∷ [])) goes.1)
  next_stands End goes =
      let same : (cells ++ cell) ++ byte ∷ [] ≡ cells ++ (goes.0 ++ goes.1) =
      append_assoc cells cell (byte ∷ []) ∙ ap (λ xs. cells ++ xs) goes.4 in (
        anew (cells ++ (goes.0 ++ goes.1)) (row cells goes.0 goes.1 each goes.2 goes.3) same,
        record {
          cells = cells;
          last = goes.0;
          end = goes.1;
          body = rw (← same) body;
          each = each;
          last_is = goes.2;
          end_is = goes.3;
        },
      )
  next_stands Plain goes = further Plain goes
  next_stands Quoted goes = further Quoted goes
  next_stands Quote goes = further Quote goes
  next_stands Return goes = further Return goes
  next_stands (Mark count) goes = absurd goes

  pub goes_on : {E : Type 0} (word : E → List ℕ) (next : Result Part E) →
      MatchResult next (Goes cell byte) (λ e. CantFollow cell byte (word e)) →
      MatchResult next (λ part. StandsNext part (seen ++ byte ∷ []) start) (λ e. CantStand seen byte (word e))
  goes_on word (Ok part) goes = next_stands part goes
  goes_on word (Err e) cant = record { cells = cells; cell = cell; body = body; each = each; cant = cant }

-- after the mark the first cell begins
pub mark_read : (seen : List ℕ) (count byte : ℕ) → count ≡ 2 → byte ≡ 191 → seen ≡ take count mark →
    InCell Start (seen ++ byte ∷ []) (length (seen ++ byte ∷ []))
mark_read seen count byte two last same = record {
  cells = [];
  cell = [];
  body = inl (rw (same, two, last) refl);
  each = none;
  begins = refl;
  start_is = omega arith;
}

plain : (byte : ℕ) → 44 < byte → IsPlain byte
plain byte more = (
  λ same. omega (arith, more, same),
  λ same. omega (arith, more, same),
  λ same. omega (arith, more, same),
  λ same. omega (arith, more, same),
)

some : (byte : ℕ) (rest : List ℕ) → byte ∷ rest ≢ []
some byte rest same = let no : length (byte ∷ rest) ≡ 0 = ap length same in omega (arith, no)

-- bytes of the mark, without the others, are a cell's
pub mark_begins : (count : ℕ) (seen : List ℕ) → count < 3 → count ≢ 0 → seen ≡ take count mark → Begins Plain seen
mark_begins zero seen few any same = absurd (any refl)
mark_begins (suc zero) seen few any same = rw same (
  All-cons IsPlain 239 [] (plain 239 (omega arith)) (All-nil IsPlain),
  some 239 [],
)
mark_begins (suc (suc zero)) seen few any same = rw same (
  All-cons IsPlain 239 (187 ∷ []) (plain 239 (omega arith))
      (All-cons IsPlain 187 [] (plain 187 (omega arith)) (All-nil IsPlain)),
  some 239 (187 ∷ []),
)
mark_begins (suc (suc (suc count))) seen few any same = let no : ⊥ = omega (arith, few) in absurd no
