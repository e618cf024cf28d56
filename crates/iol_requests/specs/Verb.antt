-- The verbs of requests, and their words.
use Rattle.std.specs.Prelude.{ℕ, List, [], ◌∷◌, codes, Option, find}
use Rattle.std.specs.Str.{bytes_eq}
use Rattle.iol_requests.specs.declared.verb.Verb.{Verb}
use Rattle.iol_requests.specs.declared.verb.Verb.TheVariants.{Configure, Clear, Rollback, Read, Status, Help, Quit}

-- the word of a verb (format, Requests)
abbrev pub verb_name : Verb → List ℕ
verb_name Configure = codes "configure"
verb_name Clear = codes "clear"
verb_name Rollback = codes "rollback"
verb_name Read = codes "read"
verb_name Status = codes "status"
verb_name Help = codes "help"
verb_name Quit = codes "quit"

-- all verbs (format, Requests)
abbrev pub verbs : List Verb
verbs = Configure ∷ Clear ∷ Rollback ∷ Read ∷ Status ∷ Help ∷ Quit ∷ []

-- the verb, if any, that has this word (format, Requests)
abbrev pub verb_of : List ℕ → Option Verb
verb_of word = find (λ verb. bytes_eq (verb_name verb) word) verbs
