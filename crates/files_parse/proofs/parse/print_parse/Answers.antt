-- What fails before anything is written, and the parse of the tokens that were read.
use Rattle.std.proofs.Common.{map, refl}
use Rattle.std.proofs.KnownBytes.{Keeps-refl}
use Rattle.std.proofs.lemmas.Result.{err_from_is_err_and}
use Rattle.files_text.specs.Words.{token_of}
use Rattle.files_parse.proofs.ParseLemmas.{parse_fails, parse_of, table_fails, tokens_fail}
use Rattle.files_parse.proofs.parse.print_parse.Goals as goal

pub returns-in_err-rules-clause-err : goal.returns-in_err-rules-clause-err
returns-in_err-rules-clause-err g c =
    let p = err_from_is_err_and c.from_residual-in_err-rules.result c.from_residual-in_err-rules.ensures.1 in
    rw (p.1, p.2)
    (parse_fails c.args.file.now c.args.text.now _ _ (Keeps-refl _) (map token_of c.in_ok-words.words.items)
    c.in-Ok.tokens.items
    (record { are_words = c.in_ok-words.ensures; are_tokens = rw c.deref.ensures.value at c.in-Ok.ensures.ok })
    c.in_ok-table.table c.in_ok-table.ensures.ok _
    (rw (c.deref-2.ensures.value, c.deref-3.ensures.value) at c.in_err-rules.ensures.err))

pub returns-in-Err-clause-err : goal.returns-in-Err-clause-err
returns-in-Err-clause-err g c =
    tokens_fail c.args.file.now c.args.text.now _ _ (Keeps-refl _) (map token_of c.in_ok-words.words.items)
    c.in_ok-words.ensures _ (rw c.deref.ensures.value at c.in-Err.ensures.err)

pub returns-in_err-table-clause-err : goal.returns-in_err-table-clause-err
returns-in_err-table-clause-err g c =
    let p = err_from_is_err_and c.from_residual.result c.from_residual.ensures.1 in
    rw (p.1, p.2)
    (table_fails c.args.file.now c.args.text.now _ _ (Keeps-refl _) _ c.in_err-table.ensures.err)

pub returns-in_default-clause-ok : goal.returns-in_default-clause-ok
returns-in_default-clause-ok g c =
    rw c.in_default.is
    (record {
      words = map token_of c.in_ok-words.words.items;
      tokens = c.in-Ok.tokens.items;
      has_tokens = record {
        are_words = c.in_ok-words.ensures;
        are_tokens = rw c.deref.ensures.value at c.in-Ok.ensures.ok;
      };
      parsed = c.in_ok-rules.rules.items;
      is_parse = parse_of c.args.file.now c.in_ok-table.table c.in-Ok.tokens.items c.in_ok-rules.rules.items
          c.in_ok-table.ensures.ok (rw c.deref-3.ensures.value at c.in_ok-rules.ensures.accepted)
          (rw c.deref-3.ensures.value at c.in_ok-rules.ensures.derives);
      written = (_, rw c.deref-in_default.ensures.value at c.in_ok-put_derivation.ensures, refl);
    })

pub returns-clause-ok : goal.returns-clause-ok
returns-clause-ok g c =
    rw c.in-Some.is
    (record {
      words = map token_of c.in_ok-words.words.items;
      tokens = c.in-Ok.tokens.items;
      has_tokens = record {
        are_words = c.in_ok-words.ensures;
        are_tokens = rw c.deref.ensures.value at c.in-Ok.ensures.ok;
      };
      parsed = c.in_ok-rules.rules.items;
      is_parse = parse_of c.args.file.now c.in_ok-table.table c.in-Ok.tokens.items c.in_ok-rules.rules.items
          c.in_ok-table.ensures.ok (rw c.deref-3.ensures.value at c.in_ok-rules.ensures.accepted)
          (rw c.deref-3.ensures.value at c.in_ok-rules.ensures.derives);
      written = rw (c.deref-4.ensures.value, c.deref-5.ensures.value, c.deref-6.ensures.value)
          at c.in_ok-put_tree.ensures.ok;
    })
