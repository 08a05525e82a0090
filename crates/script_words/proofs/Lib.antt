mod Keywords
mod Payloads
