use Rattle.std.proofs.Common.{◌≡◌, ◌∙◌, ℕ, List, Option, Some, None, option_and_then, IsUtf8, refl, rules, subst, sym}
use Rattle.std.specs.List.{before_first, after_first}
use Rattle.toml.specs.Parse.{parse_document}
use Rattle.toml.specs.View.{table_view}
use Rattle.iol_requests.specs.Request.{request_in}
use Rattle.iol_requests.specs.Verb.{verb_of}
use Rattle.iol_requests.specs.Words.{is_blank, document_of, asked_in_words, pairs_in}
use Rattle.iol_requests.specs.declared.request.Request.{Request}
use Rattle.iol_requests.specs.declared.verb.Verb.{Verb}
use Rattle.iol_requests.proofs.Utf8.{document_text, pairs_text}
use Rattle.iol_requests.proofs.words.read_words.Goals as goal

-- the request of a text with a verb is that of its document
says : (text word pairs document : List ℕ) (verb : Verb) → word ≡ before_first is_blank text → pairs ≡ after_first is_blank text
    → verb_of word ≡ Some verb → document ≡ document_of verb pairs
    → asked_in_words text ≡ option_and_then request_in (parse_document document)
says text word pairs document verb first others found is = rw (← first, ← others, found, is) refl

-- the document is UTF-8
is_text : (text pairs document : List ℕ) (verb : Verb) → IsUtf8 text → pairs ≡ after_first is_blank text
    → document ≡ document_of verb pairs → IsUtf8 document
is_text text pairs document verb utf8 others is = rw (is, others) (document_text verb (pairs_in text) (pairs_text text utf8))

pub returns-in-Ok-2-clause-request : goal.returns-in-Ok-2-clause-request
returns-in-Ok-2-clause-request c =
    let text = c.args.text.now in
    let found : verb_of c.verb_and_pairs.result.0.now ≡ Some c.in-Some.verb = cc in
    let is : c.as_slice.result.now ≡ document_of c.in-Some.verb c.verb_and_pairs.result.1.now = search rules in
    let first : c.verb_and_pairs.result.0.now ≡ before_first is_blank text = search rules in
    let others : c.verb_and_pairs.result.1.now ≡ after_first is_blank text = search rules in
    let parsed : parse_document c.as_slice.result.now ≡ Some (table_view c.in-Ok.table) = search rules in
    let asked : request_in (table_view c.in-Ok.table) ≡ Some c.in-Ok-2.request = search rules in
    says text _ _ _ c.in-Some.verb first others found is ∙ rw (parsed, asked) refl

pub returns-in-Ok-clause-mistake : goal.returns-in-Ok-clause-mistake
returns-in-Ok-clause-mistake c =
    let text = c.args.text.now in
    let found : verb_of c.verb_and_pairs.result.0.now ≡ Some c.in-Some.verb = cc in
    let is : c.as_slice.result.now ≡ document_of c.in-Some.verb c.verb_and_pairs.result.1.now = search rules in
    let first : c.verb_and_pairs.result.0.now ≡ before_first is_blank text = search rules in
    let others : c.verb_and_pairs.result.1.now ≡ after_first is_blank text = search rules in
    let parsed : parse_document c.as_slice.result.now ≡ Some (table_view c.in-Ok.table) = search rules in
    let none : request_in (table_view c.in-Ok.table) ≡ None = search rules in
    says text _ _ _ c.in-Some.verb first others found is ∙ rw (parsed, none) refl

pub returns-clause-mistake : goal.returns-clause-mistake
returns-clause-mistake c =
    let text = c.args.text.now in
    let found : verb_of c.verb_and_pairs.result.0.now ≡ Some c.in-Some.verb = cc in
    let is : c.as_slice.result.now ≡ document_of c.in-Some.verb c.verb_and_pairs.result.1.now = search rules in
    let first : c.verb_and_pairs.result.0.now ≡ before_first is_blank text = search rules in
    let others : c.verb_and_pairs.result.1.now ≡ after_first is_blank text = search rules in
    let utf8 : IsUtf8 c.as_slice.result.now = is_text text _ _ c.in-Some.verb c.utf8.text others is in
    let refused : parse_document c.as_slice.result.now ≡ None = search (rules, utf8) in
    says text _ _ _ c.in-Some.verb first others found is ∙ rw refused refl
