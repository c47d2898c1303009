-- What a client of the metrics is answered. The grammar of a request's head is httparse's:
-- ReadsRequest bytes head rest says that the bytes are this head and then the rest.
use Rattle.std.specs.Prelude.{◌≡◌, ◌⊎◌, ℕ, ◌<◌, ◌≤◌, ◌||◌, Bool, true, false, nat_eq, List, [], ◌∷◌, ◌++◌, length, Option, Some, None, codes, decimal, if◌then◌else◌}
use Rattle.std.specs.List.{concat, starts_with}
use Rattle.std.specs.Str.{bytes_eq}
use Rattle.httparse.specs.Grammar.{HasNoRequest, ReadsRequest, RequestHead}
use Rattle.httparse.specs.Spans.{RequestOverflows}
use Rattle.run_metrics.specs.Metrics.{page_text}
use Rattle.run_metrics.specs.declared.figures.RunFigures.{RunFigures}
use Rattle.run_metrics.specs.declared.reply.Reply.{Reply}
use Rattle.run_metrics.specs.declared.reply.Reply.TheVariants.{Page, PageHead, NotFound, NotFoundHead, NotAllowed, BadRequest}

-- the target is that of the metrics, with or without a query
abbrev pub is_of_metrics : (target : List ℕ) → Bool
is_of_metrics target =
    bytes_eq target (codes "/metrics") || starts_with nat_eq target (codes "/metrics?")

-- the reply to a request for the target, and to one that asks for its head alone
abbrev pub page_at : (target : List ℕ) → Reply
page_at target = if is_of_metrics target then Page else NotFound

abbrev pub head_at : (target : List ℕ) → Reply
head_at target = if is_of_metrics target then PageHead else NotFoundHead

-- the reply to a request of this method for this target
abbrev pub reply_for : (method target : List ℕ) → Reply
reply_for method target =
    if bytes_eq method (codes "GET") then page_at target
    else if bytes_eq method (codes "HEAD") then head_at target else NotAllowed

-- The bytes begin with a request that is replied so.
pub record IsReplyToRequest (bytes : List ℕ) (reply : Reply) : Type 0 where
  pub head : RequestHead
  pub rest : List ℕ
  pub reads : ReadsRequest bytes head rest
  pub is : reply ≡ reply_for head.method head.target

-- The bytes are no request, and no bytes after them make them one of at most 64 fields; or they are
-- none yet, and as many as are waited for.
abbrev pub IsNoRequest : List ℕ → Type 0
IsNoRequest bytes = RequestOverflows 64 bytes ⊎ (HasNoRequest bytes × (8192 ≤ length bytes))

-- What is replied to the bytes that a client has sent, by cases on it: nothing yet, where they are
-- no whole request and more may come.
abbrev pub IsReplyTo : List ℕ → Option Reply → Type 0
IsReplyTo bytes None = HasNoRequest bytes × (length bytes < 8192)
IsReplyTo bytes (Some BadRequest) = IsNoRequest bytes
IsReplyTo bytes (Some Page) = IsReplyToRequest bytes Page
IsReplyTo bytes (Some PageHead) = IsReplyToRequest bytes PageHead
IsReplyTo bytes (Some NotFound) = IsReplyToRequest bytes NotFound
IsReplyTo bytes (Some NotFoundHead) = IsReplyToRequest bytes NotFoundHead
IsReplyTo bytes (Some NotAllowed) = IsReplyToRequest bytes NotAllowed

-- ---- the text of an answer

-- the status, with the fields that an answer of it alone has
abbrev pub status_text : Reply → List ℕ
status_text Page = codes "200 OK\r\n"
status_text PageHead = codes "200 OK\r\n"
status_text NotFound = codes "404 Not Found\r\n"
status_text NotFoundHead = codes "404 Not Found\r\n"
status_text NotAllowed = codes "405 Method Not Allowed\r\nAllow: GET, HEAD\r\n"
status_text BadRequest = codes "400 Bad Request\r\n"

-- what is at the target, or why nothing is
abbrev pub content_text : Reply → RunFigures → List ℕ
content_text Page figures = page_text figures
content_text PageHead figures = page_text figures
content_text NotFound figures = codes "the metrics are at /metrics\n"
content_text NotFoundHead figures = codes "the metrics are at /metrics\n"
content_text NotAllowed figures = codes "the metrics are read by GET\n"
content_text BadRequest figures = codes "this is no request\n"

-- what stands before content of this length
abbrev pub response_head : Reply → (length : ℕ) → List ℕ
response_head reply count =
    concat
    (codes "HTTP/1.1 " ∷ status_text reply
    ∷ codes "Content-Type: text/plain; version=0.0.4; charset=utf-8\r\n" ∷ [])
    ++ concat
    (codes "Content-Length: " ∷ decimal count ∷ codes "\r\nConnection: close\r\n\r\n" ∷ [])

-- whether the content is in the answer, or its length alone
abbrev pub has_content : Reply → Bool
has_content Page = true
has_content PageHead = false
has_content NotFound = true
has_content NotFoundHead = false
has_content NotAllowed = true
has_content BadRequest = true

-- the whole answer
abbrev pub response_text : Reply → RunFigures → List ℕ
response_text reply figures =
    let content = content_text reply figures in
    response_head reply (length content) ++ (if has_content reply then content else [])
